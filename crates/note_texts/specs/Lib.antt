pub mod FaultTexts
pub mod StateTexts
pub mod SimTexts
