pub mod RunPage
