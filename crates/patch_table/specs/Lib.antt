pub mod OwnLines
pub mod PatchLines
pub mod PatchText
