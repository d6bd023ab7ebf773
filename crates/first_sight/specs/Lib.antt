pub mod Addresses
pub mod FirstSight
pub mod HashedAddress
pub mod Lines
pub mod SameAddress
pub mod SameAddressLaws
