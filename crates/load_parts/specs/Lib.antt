pub mod LoadParts
