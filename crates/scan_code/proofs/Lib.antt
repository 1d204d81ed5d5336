pub mod Bytes
pub mod Fetch
pub mod ImageNames
pub mod ImageParts
pub mod ImagePrefixes
pub mod ImageReadBack
pub mod ImageSpelled
pub mod ImageTaken
