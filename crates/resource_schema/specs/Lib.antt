pub mod Forms
pub mod Kinds
pub mod SchemaLaws
pub mod SchemaRules
