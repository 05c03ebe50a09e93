mod Examples
mod KindRules
