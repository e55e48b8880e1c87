pub mod HeadParts
