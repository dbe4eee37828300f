-- What the opening of a journal answers, by what a read of its files gave.
use Rattle.std.proofs.Common.{◌≡◌, ◌≤◌, ◌+◌, ◌<◌, ℕ, Bool, true, false, List, Option, Some, None, Result, Ok, Err, Vec, IfOk, IfSome, refl, sym, ap, ◌∙◌, subst, arith, min, leb, leb-true, length, length-take, take, take_all, if◌then◌else◌}
use Rattle.std.proofs.lemmas.Bool.{leb-false}
use Rattle.std.specs.IoError.{error_kind}
use Rattle.std.specs.declared.alloc.Global.{Global}
use Rattle.std.specs.declared.io.Error.{Error}
use Rattle.std.specs.declared.io.ErrorKind.{ErrorKind}
use Rattle.std.specs.declared.io.ErrorKind.TheVariants.{OutOfMemory}
use Rattle.rail_io.specs.Journals.{Opens}
use Rattle.rail_io.specs.declared.journal.JournalOpened.TheVariants as opened
use Rattle.host_io.specs.Opened.{opened_by, refused_by, ReadsText}

-- a refusal says nothing of the text
pub refused : (kept : List ℕ) (room : ℕ) (kind : ErrorKind) → Opens kept room (refused_by kind)
refused kept room OutOfMemory = tt
refused kept room _ = tt

within : (kept read : List ℕ) (room : ℕ) → read ≡ take (room + 1) kept → length read ≤ room → kept ≡ read
within kept read room is fits =
    let short : min (room + 1) (length kept) ≤ room = subst (λ (n : ℕ). n ≤ room) (ap length is ∙ length-take (room + 1) kept) fits in
    sym (is ∙ take_all (room + 1) kept (omega (arith, short)))

beyond : (kept read : List ℕ) (room : ℕ) → read ≡ take (room + 1) kept → room < length read → room < length kept
beyond kept read room is more =
    let long : room < min (room + 1) (length kept) = subst (λ (n : ℕ). room < n) (ap length is ∙ length-take (room + 1) kept) more in
    omega (arith, long)

chosen : (kept : List ℕ) (room : ℕ) (text : Vec ℕ Global) (fits : Bool) → text.items ≡ take (room + 1) kept → leb (length text.items) room ≡ fits
    → Opens kept room (if fits then opened.Text text else opened.TooLarge)
chosen kept room text true is e = let fits = leb-true (length text.items) room e in (within kept text.items room is fits, fits)
chosen kept room text false is e = beyond kept text.items room is (leb-false (length text.items) room e)

pub opens : (kept : List ℕ) (room : ℕ) (r : Result (Option (Vec ℕ Global)) Error) → IfOk r (ReadsText kept room) → Opens kept room (opened_by room r)
opens kept room (Ok None) reads = reads
opens kept room (Ok (Some text)) reads = chosen kept room text (leb (length text.items) room) reads refl
opens kept room (Err e) reads = refused kept room (error_kind e)

-- likewise, where the files tell their text
pub opens_told : (told : Option (List ℕ)) (room : ℕ) (r : Result (Option (Vec ℕ Global)) Error) → IfSome told (λ text. IfOk r (ReadsText text room))
    → IfSome told (λ kept. Opens kept room (opened_by room r))
opens_told None room r reads = tt
opens_told (Some kept) room r reads = opens kept room r reads

pub refused_told : (told : Option (List ℕ)) (room : ℕ) (kind : ErrorKind) → IfSome told (λ kept. Opens kept room (refused_by kind))
refused_told None room kind = tt
refused_told (Some kept) room kind = refused kept room kind
