mod DraftLemmas
mod Examples
