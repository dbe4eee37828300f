use Rattle.std.proofs.Common.{◌≡◌, ◌≤◌, ◌+◌, ◌-◌, ℕ, List, length, take, drop, sym, ◌∙◌, ap, arith}
use Rattle.std.specs.Prelude.{slice_range}
use Rattle.std.proofs.lemmas.List.{take-take, drop-take, drop-drop, length-take}
use Rattle.http_wire.specs.declared.request.Piece.{Piece}
use Rattle.http_wire.specs.Pieces.{piece_bytes}
use Rattle.http_wire.specs.View.{IntakeView}
use Rattle.http_wire.proofs.intake.Intake.part.Goals as goal

-- a piece of a part of a memory
piece_in : (memory : List ℕ) (start end : ℕ) (p : Piece) → p.start + p.len ≤ length (slice_range memory start end)
    → take (start + p.start + p.len - (start + p.start)) (drop (start + p.start) memory) ≡ piece_bytes (slice_range memory start end) p
piece_in memory start end p within =
    let room = drop start memory in
    let size : p.start + p.len ≤ end - start = omega (arith, within, length-take (end - start) room) in
    let back : p.start + (end - start - p.start) ≡ end - start = omega (arith, size) in
    let fits : p.start + p.len - p.start ≤ end - start - p.start = omega (arith, size) in
    ap (λ (n : ℕ). take n (drop (start + p.start) memory)) (omega arith)
    ∙ ap (take (p.start + p.len - p.start)) (sym (drop-drop p.start start memory))
    ∙ sym (take-take (p.start + p.len - p.start) (end - start - p.start) (drop p.start room) fits)
    ∙ ap (take (p.start + p.len - p.start)) (sym (drop-take p.start (end - start - p.start) room))
    ∙ ap (λ (n : ℕ). take (p.start + p.len - p.start) (drop p.start (take n room))) back

pub returns : goal.returns
returns c =
    let inside = c.self.inside in
    let taken : slice_range inside.memory.items inside.start inside.at ≡ c.args.self.now.taken = ap (λ (v : IntakeView). v.taken) c.self.view_is in
    record {
      bytes =
          ap (λ (m : List ℕ). slice_range m (inside.start + c.args.piece.start) (inside.start + c.args.piece.start + c.args.piece.len)) c.deref.ensures.value
          ∙ piece_in inside.memory.items inside.start inside.at c.args.piece (omega (arith, c.requires.within, ap length taken))
          ∙ ap (λ (t : List ℕ). piece_bytes t c.args.piece) taken;
    }
