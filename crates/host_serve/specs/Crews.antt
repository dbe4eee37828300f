-- Crews whose members stand ready.
use Rattle.std.specs.Prelude.{◌≡◌, ◌<◌, ◌+◌, ℕ, List, [], IfSome, length, slice_index_or}
use Rattle.history_model.specs.History.{own}
use Rattle.worker_pool.specs.declared.member.Member.{Member}
use Rattle.catalogue_contents.specs.Contents.{CatalogueView}
use Rattle.host_words.specs.declared.serve.Serving.{Serving}
use Rattle.host_serve.specs.Turns.{HasClock, IsPosted, Readings, clock_of, handed_of}
use Rattle.host_serve.specs.declared.member.Post.{Post}

-- what the posts of a crew are filled with
pub record Filling (T : Type 0) : Type 0 where
  pub cat : CatalogueView
  pub said : Serving
  pub ticker : T
  pub clocks : List Readings

-- a member that stands ready at its post, with its own of the clocks, handed out no stream, at a desk without entries
-- of its own
pub record IsReady {S T C W : Type 0} (m : Member (Post S T C W)) (handed : S → ℕ) (told : C → Readings)
    (with_these : Filling T)
    (i : ℕ) : Type 0 where
  pub post : IsPosted with_these.cat with_these.said with_these.ticker i m.worker
  pub clock : HasClock told with_these.clocks i m.worker
  pub unserved : handed_of m.worker handed ≡ 0
  pub none : own m.desk.seen (i + 1) ≡ []

abbrev pub AreReady : {S T C W : Type 0} → List (Member (Post S T C W)) → (S → ℕ) → (C → Readings) → Filling T → Type 0
AreReady {S} {T} {C} {W} crew handed told with_these =
    (i : ℕ) (none : Member (Post S T C W)) → i < length crew
    → IsReady (slice_index_or crew i none) handed told with_these i

-- whatever clock a member has goes through this gate
abbrev pub AreGated : {S T C W G : Type 0} → List (Member (Post S T C W)) → (C → G) → G → Type 0
AreGated {S} {T} {C} {W} crew gate_of gate =
    (i : ℕ) (none : Member (Post S T C W)) → i < length crew
    → IfSome (clock_of (slice_index_or crew i none).worker) (λ (c : C). gate_of c ≡ gate)
