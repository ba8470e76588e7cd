pub mod PutData
