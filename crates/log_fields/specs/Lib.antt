pub mod LogFields
