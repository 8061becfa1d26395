pub mod SettingsText
pub mod JobsText
