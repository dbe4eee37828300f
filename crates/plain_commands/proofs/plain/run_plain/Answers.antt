use Rattle.std.proofs.Common.{Some, arith, inl, inr, refl, subst}
use Rattle.host_words.specs.Commands.{IsFor}
use Rattle.host_words.specs.Options.{words_texts}
use Rattle.host_words.specs.declared.command.CommandName.{CommandName}
use Rattle.host_words.specs.declared.command.CommandName.TheVariants.{Tiny, Replay, Export, Settle, Recover}
use Rattle.plain_commands.proofs.plain.run_plain.Goals as goal

pub returns-in-Some-Tiny : goal.returns-in-Some-Tiny
returns-in-Some-Tiny g c =
    let e = c.run_tiny.ensures in (
      Some Tiny,
      subst (λ (n : CommandName). IsFor n (words_texts c.args.words.now)) c.in-Some-Tiny.field-0-is c.in-Some-Tiny.ensures,
      elim e.run [
        | inl none ↦ let two = e.refused_words none in inl (
          none,
          record {
            is = two;
            untouched = record { unfetched = refl; unread = e.nothing_read two; unwritten = e.nothing_written two };
            note = e.refused two;
          },
        )
        | inr ran ↦ inr (record {
          end = ran.0;
          is = ran.1;
          note = ran.3;
          ran = ran.2;
          served = e.served;
          cut = e.cut;
          read_fault = e.read_fault;
          write_fault = e.write_fault;
          input = record { cause = e.read_cause; steady = e.read_steady };
          output = record { cause = e.write_cause; steady = e.write_steady };
          unfetched = refl;
        })
      ],
    )

pub returns-in-Some-Replay : goal.returns-in-Some-Replay
returns-in-Some-Replay g c =
    let e = c.run_replay.ensures in (
      Some Replay,
      subst (λ (n : CommandName). IsFor n (words_texts c.args.words.now)) c.in-Some-Replay.field-0-is c.in-Some-Replay.ensures,
      elim e.run [
        | inl two ↦ inl (
          e.words two,
          record {
            is = two;
            untouched = record {
              unfetched = e.nothing_fetched two;
              unread = e.nothing_read two;
              unwritten = e.nothing_written two;
            };
            note = e.refused two;
          },
        )
        | inr ran ↦ inr (record {
          end = ran.0;
          is = ran.1;
          note = ran.3;
          ran = ran.2;
          served = e.served;
          cut = e.cut;
          read_fault = e.read_fault;
          write_fault = e.write_fault;
          read_cause = e.read_cause;
          read_steady = e.read_steady;
          output = record { cause = e.write_cause; steady = e.write_steady };
          cause = ran.4;
          shelf = record {
            without = e.without;
            no_books = λ files told none. e.no_books files told none.0 none.1 none.2;
            missed = e.missed;
            steady = e.shelf_steady;
            same = e.files;
          };
        })
      ],
    )

pub returns-in-Some-Export : goal.returns-in-Some-Export
returns-in-Some-Export g c =
    let e = c.run_export.ensures in (
      Some Export,
      subst (λ (n : CommandName). IsFor n (words_texts c.args.words.now)) c.in-Some-Export.field-0-is c.in-Some-Export.ensures,
      elim e.run [
        | inl two ↦ inl (
          e.words two,
          record {
            is = two;
            untouched = record {
              unfetched = e.nothing_fetched two;
              unread = e.nothing_read two;
              unwritten = e.nothing_written (λ zero. omega (arith, zero, two)) (λ four. omega (arith, four, two));
            };
            note = e.refused two;
          },
        )
        | inr ran ↦ inr (record {
          end = ran.0;
          is = ran.1;
          note = ran.3;
          ran = ran.2;
          exported = e.exported;
          write_fault = e.write_fault;
          cut = e.cut;
          nothing_written = e.nothing_written;
          read_cause = e.read_cause;
          read_steady = e.read_steady;
          output = record { cause = e.write_cause; steady = e.write_steady };
          cause = ran.4;
          shelf = record {
            without = e.without;
            no_books = λ files told none. e.no_books files told none.0 none.1 none.2;
            missed = e.missed;
            steady = e.shelf_steady;
            same = e.files;
          };
        })
      ],
    )

pub returns-in-Some-Settle : goal.returns-in-Some-Settle
returns-in-Some-Settle g c =
    let e = c.run_settle.ensures in (
      Some Settle,
      subst (λ (n : CommandName). IsFor n (words_texts c.args.words.now)) c.in-Some-Settle.field-0-is c.in-Some-Settle.ensures,
      elim e.run [
        | inl two ↦ inl (
          e.words two,
          record {
            is = two;
            untouched = record {
              unfetched = e.nothing_fetched two;
              unread = refl;
              unwritten = e.nothing_written (λ zero. omega (arith, zero, two)) (λ four. omega (arith, four, two));
            };
            note = e.refused two;
          },
        )
        | inr ran ↦ inr (record {
          end = ran.0;
          is = ran.1;
          note = ran.3;
          ran = ran.2;
          settled = e.settled;
          write_fault = e.write_fault;
          nothing_written = e.nothing_written;
          unread = refl;
          read_cause = e.read_cause;
          output = record { cause = e.write_cause; steady = e.write_steady };
          cause = ran.4;
          shelf = record {
            without = e.without;
            no_books = λ files told none. e.no_books files told none.catalogue none.export none.said none.is;
            missed = e.missed;
            steady = e.shelf_steady;
            same = e.files;
          };
        })
      ],
    )

pub returns-in-Some-Recover : goal.returns-in-Some-Recover
returns-in-Some-Recover g c =
    let e = c.run_recover.ensures in (
      Some Recover,
      subst (λ (n : CommandName). IsFor n (words_texts c.args.words.now)) c.in-Some-Recover.field-0-is c.in-Some-Recover.ensures,
      elim e.run [
        | inl two ↦ inl (
          e.words two,
          record {
            is = two;
            untouched = record {
              unfetched = e.nothing_fetched two;
              unread = refl;
              unwritten = e.nothing_written (λ zero. omega (arith, zero, two)) (λ four. omega (arith, four, two));
            };
            note = e.refused two;
          },
        )
        | inr ran ↦ inr (record {
          end = ran.0;
          is = ran.1;
          note = ran.3;
          ran = ran.2;
          recovered = e.recovered;
          write_fault = e.write_fault;
          nothing_written = e.nothing_written;
          unread = refl;
          read_cause = e.read_cause;
          output = record { cause = e.write_cause; steady = e.write_steady };
          cause = ran.4;
          shelf = record {
            without = e.without;
            no_books = λ files told none. e.no_books files told none.catalogue none.journal none.said none.is;
            missed = e.missed;
            steady = e.shelf_steady;
            same = e.files;
          };
        })
      ],
    )
