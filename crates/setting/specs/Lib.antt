pub mod Setting
pub mod SettingLaw
pub mod Steps
