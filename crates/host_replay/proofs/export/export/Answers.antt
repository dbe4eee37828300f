use Rattle.std.proofs.Common.{◌++◌, ◌∙◌, List, ℕ, Option, refl, sym, ap, subst}
use Rattle.host_words.specs.Said.{view_of}
use Rattle.host_replay.specs.Export.{IsExportOf, IsTextRun}
use Rattle.host_replay.proofs.Exporting.{no_text, wrote_whole}
use Rattle.host_replay.proofs.Finishing.{first_desk}
use Rattle.host_replay.proofs.export.export.Goals as goal

pub returns-in-Err-export_input-clause-ends : goal.returns-in-Err-export_input-clause-ends
returns-in-Err-export_input-clause-ends g c =
    let ok = c.in-Ok.ensures.ok in
    let err = c.in-Err-export_input.ensures.err in
    no_text (view_of c.args.said.now) (g.F.Shelf.told c.args.shelf.now) (g.S.Source.told c.args.input.now) (g.S.Source.told c.export_input.new.input) (g.K.Sink.told c.args.output.now)
    c.in-Ok.opened.0 ok.0 ok.1 c.in-Ok.opened.2 (first_desk c.in-Ok.opened.0 ok.0 c.in-Ok.opened.1 c.in-Ok.opened.2 ok.2) err.0 err.1 c.in-Err-export_input.end err.2

pub returns-then-write_all-clause-ends : goal.returns-then-write_all-clause-ends
returns-then-write_all-clause-ends g c =
    let ok = c.in-Ok.ensures.ok in
    let made = c.in-Ok-export_input.ensures.ok in (
      c.in-Ok-export_input.text.items,
      record {
        cat = c.in-Ok.opened.0;
        kept = ok.0;
        books = ok.1;
        desk = c.in-Ok.opened.2;
        first = first_desk c.in-Ok.opened.0 ok.0 c.in-Ok.opened.1 c.in-Ok.opened.2 ok.2;
        taken = made.0;
        takes = made.1;
        is = made.2;
      },
      wrote_whole (g.K.Sink.told c.args.output.now) (g.K.Sink.told c.write_all.new.sink) c.as_slice.result.now c.in-Ok-export_input.text.items c.write_all.result c.as_slice.ensures.value c.write_all.ensures.writes c.if-write_all.true,
    )

pub returns-clause-ends : goal.returns-clause-ends
returns-clause-ends g c =
    let ok = c.in-Ok.ensures.ok in
    let made = c.in-Ok-export_input.ensures.ok in
    let w = c.write_all.ensures.writes in (
      w.written,
      w.left,
      record {
        cat = c.in-Ok.opened.0;
        kept = ok.0;
        books = ok.1;
        desk = c.in-Ok.opened.2;
        first = first_desk c.in-Ok.opened.0 ok.0 c.in-Ok.opened.1 c.in-Ok.opened.2 ok.2;
        taken = made.0;
        takes = made.1;
        is = subst (λ (t : List ℕ). IsExportOf c.in-Ok.opened.0 c.in-Ok.opened.2 (view_of c.args.said.now) made.0 (g.S.Source.told c.export_input.new.input) t) (sym c.as_slice.ensures.value ∙ w.is) made.2;
      },
      w.told,
    )
