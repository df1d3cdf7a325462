pub mod Assembling
pub mod AssemblingLaws
pub mod Chunks
pub mod Decoding
pub mod DecodingLaws
pub mod Encoding
pub mod Sizes
pub mod Touch
