pub mod LogValues
