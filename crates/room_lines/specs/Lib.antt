pub mod RoomLines
