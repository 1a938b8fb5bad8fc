pub mod Values
pub mod Dates
pub mod Apply
pub mod Borrowed
pub mod OutcomeOf
pub mod Results
pub mod Laws
