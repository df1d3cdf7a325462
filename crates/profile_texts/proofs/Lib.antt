pub mod FaultLemmas
pub mod FormLemmas
mod KeyLemmas
pub mod LayerLemmas
pub mod SettingLemmas
