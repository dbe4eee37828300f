-- The text of a family of numbers, in the text format of Prometheus, version 0.0.4.
use Rattle.std.specs.Prelude.{ℕ, List, [], ◌++◌, codes, decimal, flat_map}
use Rattle.host_window.specs.declared.family.Head.{Head}
use Rattle.host_window.specs.declared.family.Kind.{Kind}
use Rattle.host_window.specs.declared.family.Kind.TheVariants.{Counter, Gauge, Histogram}
use Rattle.host_window.specs.declared.family.Sample.{Sample}

-- what a family is, as its texts
pub record HeadView : Type 0 where
  pub name : List ℕ
  pub help : List ℕ
  pub kind : Kind

abbrev pub said_head : Head → HeadView
said_head h = record { name = h.name.now; help = h.help.now; kind = h.kind }

abbrev pub kind_text : Kind → List ℕ
kind_text Counter = codes "counter"
kind_text Gauge = codes "gauge"
kind_text Histogram = codes "histogram"

-- a line with a number
abbrev pub number_text : List ℕ → List ℕ → ℕ → List ℕ
number_text name labels value = name ++ (labels ++ (codes " " ++ (decimal value ++ codes "\n")))

abbrev pub sample_text : List ℕ → Sample → List ℕ
sample_text name s = number_text name s.labels.now s.value

abbrev pub samples_text : List ℕ → List Sample → List ℕ
samples_text name samples = flat_map (sample_text name) samples

-- a line about a name
abbrev pub line_text : List ℕ → List ℕ → List ℕ → List ℕ
line_text front name more = front ++ (name ++ (codes " " ++ (more ++ codes "\n")))

-- the two lines before the numbers
abbrev pub head_text : HeadView → List ℕ
head_text h = line_text (codes "# HELP ") h.name h.help ++ line_text (codes "# TYPE ") h.name (kind_text h.kind)

-- a family of one number, which has no labels
unfoldable pub one_text : HeadView → ℕ → List ℕ
one_text h value = head_text h ++ number_text h.name [] value

-- a family of numbers with labels
unfoldable pub table_text : HeadView → List Sample → List ℕ
table_text h samples = head_text h ++ samples_text h.name samples
