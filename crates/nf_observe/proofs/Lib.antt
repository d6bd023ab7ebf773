pub mod Conforming
pub mod Counting
pub mod NoNewKey
pub mod OwnBuckets
pub mod Rows
pub mod Spending
pub mod Widths
