pub mod NewCell
