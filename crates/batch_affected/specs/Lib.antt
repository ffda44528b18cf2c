-- The merged ids of one node: from chains and seats to the definition's `merged_ids`.
pub mod Naming
pub mod Base
pub mod Says
pub mod Affected
pub mod Below
