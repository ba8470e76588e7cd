pub mod LogTail
