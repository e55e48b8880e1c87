pub mod ShortNames
mod EntryLoops
