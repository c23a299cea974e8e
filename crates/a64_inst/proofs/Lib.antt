mod ReplacedBits
mod Joining
pub mod Splitting
pub mod Apart
pub mod Rows
mod EachRow
mod RowLaws
