pub mod Found
pub mod ModuleTables
