pub mod CircleLaws
