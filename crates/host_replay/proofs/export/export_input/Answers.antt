use Rattle.std.proofs.Common.{◌≡◌, ◌++◌, [], refl, subst, sym, ◌∙◌, ap, true, Some, Option, List, ℕ, rules}
use Rattle.rail_io.specs.Memory.{sink_taken}
use Rattle.session_loop.specs.declared.end.ConnEnd.TheVariants.{Done, WriteFault}
use Rattle.host_words.specs.Said.{view_of}
use Rattle.host_replay.specs.Export.{StandsIn, no_memory_line}
use Rattle.host_replay.proofs.Finishing.{export_made, none_made, was_served}
use Rattle.host_replay.proofs.export.export_input.Goals as goal

pub text_of-requires-clause-tidy : goal.text_of-requires-clause-tidy
text_of-requires-clause-tidy g c = c.serve_connection-end.ensures.tidy c.requires.opened.1.tidy

-- the sink took just what was written
taken_all : (old new written : List ℕ) → old ≡ [] → Some new ≡ Some (old ++ written) → new ≡ written
taken_all old new written none e = let same : new ≡ old ++ written = cc in same ∙ ap (λ (l : List ℕ). l ++ written) none

pub returns-in_default-clause-err : goal.returns-in_default-clause-err
returns-in_default-clause-err g c =
    let hs = c.serve_connection-end.ensures.served in
    let yes : c.lacks.result ≡ true = search rules in
    let text : c.taken.result.now ≡ hs.1 = c.taken.ensures ∙ taken_all _ _ hs.1 c.new-answers.ensures.taken hs.4 in
    let done : c.serve_connection-end.result ≡ Done → ⊥ = search rules in
    let write : c.serve_connection-end.result ≡ WriteFault → ⊥ = search rules in (
      hs.0,
      hs.3,
      none_made c.args.opened.0 c.args.opened.2 (view_of c.args.said.now) _ hs.0 _ hs.1 c.serve_connection-end.result done write
          (λ stands. c.lacks.ensures yes (subst (StandsIn no_memory_line) (sym text) stands)) hs.5,
    )

pub returns-in-Ok-clause-ok : goal.returns-in-Ok-clause-ok
returns-in-Ok-clause-ok g c =
    let hs = c.serve_connection-end.ensures.served in
    let first = c.args.opened.2 in
    let said = view_of c.args.said.now in
    let served = was_served c.serve_connection-end.result c.in-Done.is hs.5 in
    let yes : c.lacks.result ≡ true = search rules in
    let text : c.taken.result.now ≡ hs.1 = c.taken.ensures ∙ taken_all _ _ hs.1 c.new-answers.ensures.taken hs.4 in (
      hs.0,
      hs.3,
      export_made c.args.opened.0 c.requires.opened.0 c.args.opened.1 first c.requires.opened.1 said _ hs.0 _ hs.1 served c.serve_connection-end.ensures.own c.serve_connection-end.ensures.idle
          (λ stands. c.lacks.ensures yes (subst (StandsIn no_memory_line) (sym text) stands)) c.in-Ok.text.items c.in-Ok.ensures,
    )
