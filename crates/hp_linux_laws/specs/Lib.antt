pub mod Laws
pub mod MayRows
pub mod RelaxedRows
pub mod RepairedRaces
pub mod RepairedRows
