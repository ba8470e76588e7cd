pub mod LogBehind
