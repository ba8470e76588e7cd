pub mod PaperText
