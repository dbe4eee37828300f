-- What a body orders of one run, and what a path asks of its places.
use Rattle.std.specs.Prelude.{ℕ, ◌+◌, nat_lt, List, [], ◌∷◌, length, decimal, if◌then◌else◌, Option, Some, None, Result, Ok, Err, codes}
use Rattle.std.specs.Str.{bytes_eq}
use Rattle.serde_json.specs.Data.{Data}
use Rattle.serde_json.specs.Find.{get}
use Rattle.leg_masks.specs.Interval.{Interval}
use Rattle.rail_ids.specs.declared.RunNo.{RunNo}
use Rattle.train_runs.specs.declared.segment.Segment.{Segment}
use Rattle.train_runs.specs.Stations.{station_with}
use Rattle.train_runs.specs.Stops.{RunView}
use Rattle.train_runs.specs.Runs.{span_of}
use Rattle.rail_catalogue.specs.Json.{whole_in, whole_or, text_of}
use Rattle.catalogue_contents.specs.Contents.{CatalogueView}
use Rattle.osdm_parts.specs.declared.field.FieldName.TheVariants.{Class, Wanted, Run, Count, From, To, Together}
use Rattle.osdm_json.specs.declared.fault.BodyFault.{BodyFault}
use Rattle.osdm_json.specs.declared.fault.BodyFault.TheVariants.{Field}
use Rattle.osdm_json.specs.Asked.{Asked, reserve, places}
use Rattle.osdm_json.specs.Members.{need, known, after, class_in, flag_in, traits_in}

abbrev segment_on : RunNo → Option Interval → Result Segment BodyFault
segment_on run None = Err (Field To)
segment_on run (Some span) = Ok (record { run = run; span = span })

-- a run's segment between two stations: `from` is looked up first, and where the run doesn't go so it is `to` that is
-- bad
abbrev pub segment_of : CatalogueView → RunNo → List ℕ → List ℕ → Result Segment BodyFault
segment_of cat run from to =
    known From (station_with from cat.runs.stations) (λ start.
    known To (station_with to cat.runs.stations) (λ end.
    segment_on run (span_of cat.runs run start end)))

abbrev pub if_run : CatalogueView → Option ℕ → Option RunNo
if_run cat None = None
if_run cat (Some n) = if nat_lt n (length cat.runs.runs) then Some (record { 0 = n }) else None

abbrev pub reserve_of : CatalogueView → Data → Result Asked BodyFault
reserve_of cat d =
    need Run (if_run cat (whole_in 0 4_294_967_295 (get (codes "run") d))) (λ run.
    need Class (class_in (get (codes "class") d)) (λ class.
    need Count (whole_or 1 1 8 (get (codes "count") d)) (λ count.
    need Wanted (traits_in (get (codes "wanted") d)) (λ wanted.
    need From (text_of (get (codes "from") d)) (λ from.
    need To (text_of (get (codes "to") d)) (λ to.
    need Together (flag_in (get (codes "together") d)) (λ together.
    after (segment_of cat run from to) (λ segment.
    Ok (reserve segment class count wanted together)))))))))

-- the run whose number the text is in decimal digits, where the first of the runs left has the number n
abbrev pub run_from : ℕ → List ℕ → List RunView → Option RunNo
run_from n text [] = None
run_from n text (r ∷ rest) = if bytes_eq (decimal n) text then Some (record { 0 = n }) else run_from (n + 1) text rest

-- the places of a run between two stations, all three as texts of a path
abbrev pub places_of : CatalogueView → List ℕ → List ℕ → List ℕ → Result Asked BodyFault
places_of cat run start end =
    need Run (run_from 0 run cat.runs.runs) (λ run.
    after (segment_of cat run start end) (λ segment.
    Ok (places segment)))
