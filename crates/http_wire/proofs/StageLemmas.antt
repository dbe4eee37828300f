-- The reading goes on where it stood, with more bytes behind.
use Rattle.std.proofs.Common.{◌≡◌, ℕ, ◌≤◌, List, [], ◌++◌, length, take, drop, sym, ◌∙◌, ap, subst, arith, append_assoc, length-append}
use Rattle.std.proofs.lemmas.List.{take-append-le, drop-append-le}
use Rattle.http_wire.specs.declared.intake.Stage.{Stage}
use Rattle.http_wire.specs.declared.intake.Stage.TheVariants.{Head, Body}
use Rattle.http_wire.specs.declared.scan.HeadScan.{HeadScan}
use Rattle.http_wire.specs.HeadRead.{IsServedRead, IsServedWithin}
use Rattle.http_wire.specs.Next.{IsDecided}
use Rattle.http_wire.specs.Requests.{HeadAt}
use Rattle.http_wire.specs.Scan.{StandsFor}
use Rattle.http_wire.specs.Stages.{IsStage, searched}

pub stage_more : (number : ℕ) (text more : List ℕ) (stage : Stage) → IsStage number text stage → IsStage number (text ++ more) stage
stage_more number text more (Head scan) s = record {
  within = omega (arith, s.within, length-append text more);
  short = s.short;
  stands = subst (StandsFor scan) (sym (take-append-le scan.at text more s.within)) s.stands;
}
stage_more number text more (Body end head) s =
    let front : take end (text ++ more) ≡ take end text = take-append-le end text more s.within in
    let behind : drop end (text ++ more) ≡ drop end text ++ more = drop-append-le end text more s.within in
    record {
      at = subst (λ (h : List ℕ). HeadAt (text ++ more) h (drop end (text ++ more))) (sym front)
          (subst (HeadAt (text ++ more) (take end text)) (sym behind)
          (record {
            ends = s.at.ends;
            short = s.at.short;
            few = s.at.few;
            is = ap (λ (t : List ℕ). t ++ more) s.at.is ∙ append_assoc (take end text) (drop end text) more;
          }));
      within = omega (arith, s.within, length-append text more);
      read = subst (λ (h : List ℕ). IsServedRead number h head) (sym front) s.read;
      places = subst (λ (h : List ℕ). IsServedWithin (length h) head) (sym front) s.places;
    }

-- a fresh search stands at the front of any bytes
pub stage_start : (number : ℕ) (text : List ℕ) (scan : HeadScan) → scan.at ≡ 0 → StandsFor scan [] → IsStage number text (Head scan)
stage_start number text scan at s = record {
  within = omega (arith, at);
  short = omega (arith, at);
  stands = subst (λ (k : ℕ). StandsFor scan (take k text)) (sym at) s;
}

-- what was searched is there
pub searched_within : (number : ℕ) (text : List ℕ) (stage : Stage) → IsStage number text stage → searched stage ≤ length text
searched_within number text (Head scan) s = s.within
searched_within number text (Body end head) s = s.within

-- bytes were pulled only where those held don't tell
unfoldable pub PullsForMore : List ℕ → List ℕ → Type 0
PullsForMore held pulled = IsDecided held → pulled ≡ []
