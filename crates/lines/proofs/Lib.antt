-- Laws on the bytes and lines of a listing.
pub mod Places
pub mod Eights
pub mod Front
pub mod Theorems
pub mod CommentBytes
pub mod Entries
pub mod Grammar
pub mod Said
pub mod ReadBack
