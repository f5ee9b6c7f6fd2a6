pub mod Meetings
pub mod Finding
pub mod Looking
pub mod Laws
