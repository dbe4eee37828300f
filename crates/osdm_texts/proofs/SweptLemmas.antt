-- The pieces of a sweep's text are its tree written compactly.
use Rattle.std.proofs.Common.{◌≡◌, ℕ, List, [], ◌++◌, codes, decimal, append_assoc}
use Rattle.json.specs.Print.{escape_byte}
use Rattle.serde_json.specs.Written.{compact_text}
use Rattle.booking_rows.specs.declared.swept.Swept.{Swept}
use Rattle.osdm_texts.specs.Sweeps.{swept_tree}

abbrev pub swept_pieces : Swept → List ℕ
swept_pieces s =
    codes "{\"expired\":" ++ (decimal s.expired ++ (codes ",\"lost\":" ++ (decimal s.lost ++ (codes ",\"waiting\":" ++ (decimal s.waiting ++ codes "}")))))

pub compact_text-swept_tree : (s : Swept) → compact_text (swept_tree s) ≡ swept_pieces s
unfolding escape_byte
compact_text-swept_tree s = simp append_assoc

-- seven pieces, each pushed behind those before
pub pushed_seven : (t0 t1 t2 t3 t4 t5 t6 t7 p1 p2 p3 p4 p5 p6 p7 : List ℕ) → t0 ≡ [] → t1 ≡ t0 ++ p1 → t2 ≡ t1 ++ p2 → t3 ≡ t2 ++ p3 → t4 ≡ t3 ++ p4 → t5 ≡ t4 ++ p5 → t6 ≡ t5 ++ p6 → t7 ≡ t6 ++ p7
    → t7 ≡ p1 ++ (p2 ++ (p3 ++ (p4 ++ (p5 ++ (p6 ++ p7)))))
pushed_seven t0 t1 t2 t3 t4 t5 t6 t7 p1 p2 p3 p4 p5 p6 p7 e0 e1 e2 e3 e4 e5 e6 e7 = rw (e7, e6, e5, e4, e3, e2, e1, e0) (simp append_assoc)
