-- The schema of a workload (of this project).
use Rattle.std.specs.Prelude.{ℕ, List, codes}

-- articles, comments and people
abbrev pub blog_text : List ℕ
blog_text = codes "{\"types\":{\"articles\":{\"attributes\":{\"draft\":{\"type\":\"bool\",\"nullable\":true},\"title\":{\"type\":\"text\"},\"views\":{\"type\":\"int\",\"default\":0}},\"relationships\":{\"author\":{\"kind\":\"one\",\"target\":\"people\"},\"comments\":{\"kind\":\"many\",\"target\":\"comments\"}}},\"comments\":{\"attributes\":{\"text\":{\"type\":\"text\"}},\"relationships\":{\"author\":{\"kind\":\"one\",\"target\":\"people\"}}},\"people\":{\"client-ids\":true,\"attributes\":{\"name\":{\"type\":\"text\"}}}}}"
