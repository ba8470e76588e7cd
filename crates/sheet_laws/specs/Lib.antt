pub mod Class
pub mod Page
