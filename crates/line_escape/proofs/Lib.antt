pub mod EscapedOctets
