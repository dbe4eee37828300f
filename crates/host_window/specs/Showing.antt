-- What a connection of the window has written.
use Rattle.std.specs.Prelude.{◌≡◌, ℕ, List, Option}
use Rattle.http_wire.specs.declared.request.WireFault.{WireFault}
use Rattle.http_wire.specs.Requests.{RequestText}
use Rattle.rail_io.specs.Told.{with_end, with_front}
use Rattle.session_loop.specs.Session.{IsEnd}
use Rattle.session_loop.specs.declared.end.ConnEnd.{ConnEnd}
use Rattle.session_loop.specs.declared.end.ConnEnd.TheVariants.{NoMemory}
use Rattle.host_window.specs.Pages.{Answers, Declines}
use Rattle.host_window.specs.declared.pages.Pages.{Pages}

-- The pages answer a request so, and stay as they are.
abbrev pub Responds : {R : Type 0} → Pages R → RequestText → List ℕ → Pages R → Type 0
Responds {R} before request text after = (after ≡ before) × Answers request text

abbrev pub Refuses : {R : Type 0} → Pages R → WireFault → List ℕ → Type 0
Refuses {R} pages fault text = Declines fault text

-- what a source and a sink told, before and after
pub record Talk : Type 0 where
  pub came : Option (List ℕ)
  pub left : Option (List ℕ)
  pub before : Option (List ℕ)
  pub after : Option (List ℕ)

-- Of the bytes taken, each request is answered once, in order, up to a write fault, by its page, and last what stands
-- in a request's place. Or there was no memory, and nothing was taken and written.
abbrev pub IsShown : {R : Type 0} → Pages R → Pages R → Talk → ConnEnd → Type 0
IsShown {R} old new t NoMemory = (t.left ≡ t.came) × (t.after ≡ t.before)
IsShown {R} old new t end =
    (taken : List ℕ) × (written : List ℕ) × (t.came ≡ with_front taken t.left) × (t.after ≡ with_end t.before written)
    × IsEnd Responds Refuses old new taken t.left written end

-- The pages were shown so to a caller whose stream is this: as it was when it was handed out, and as it was when it was
-- let go.
abbrev pub IsShownTo : {R S K : Type 0} → (S → Option (List ℕ)) → (K → Option (List ℕ)) → Pages R → S → K → Pages R
    → Type 0
IsShownTo {R} {S} {K} came sent before input output after =
    (source : S) × (sink : K) × (end : ConnEnd)
    × IsShown before after
    (record { came = came input; left = came source; before = sent output; after = sent sink })
    end
