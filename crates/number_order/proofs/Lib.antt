pub mod BetweenLaws
pub mod Keys
pub mod NumberOrders
pub mod ZeroAfter
pub mod NumberSums
