pub mod Scan
pub mod Fault
pub mod Line
pub mod Over
pub mod Decimal
pub mod KeyLine
pub mod List
pub mod Runs
