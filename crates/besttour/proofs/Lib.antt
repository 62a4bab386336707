-- From what the parts ensure to what is promised.
pub mod Bridge
pub mod Made
pub mod Steps
pub mod Renaming
