pub mod PaperRoom
