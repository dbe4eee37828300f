-- Requests and times to answer, by route.
use Rattle.std.specs.Prelude.{ℕ, List, [], ◌++◌, codes, decimal, flat_map}
use Rattle.host_window.specs.Texts.{HeadView, head_text, table_text}
use Rattle.host_window.specs.declared.counts.Counts.{Counts}
use Rattle.host_window.specs.declared.family.Kind.TheVariants.{Counter, Histogram}
use Rattle.host_window.specs.declared.route_texts.Bucket.{Bucket}
use Rattle.host_window.specs.declared.route_texts.RouteTime.{RouteTime}

-- a label between two texts
unfoldable pub label_text : List ℕ → List ℕ → List ℕ → List ℕ
label_text front label back = front ++ (label ++ back)

-- a number before a text
unfoldable pub value_text : ℕ → List ℕ → List ℕ
value_text value back = decimal value ++ back

-- the line of a bucket
unfoldable pub bucket_text : Bucket → List ℕ
bucket_text b =
    (label_text (codes "sumacgate_answer_seconds_bucket{route=\"") b.route.now (codes "\",le=\"")
    ++ label_text [] b.bound.now (codes "\"} "))
    ++ value_text b.done (codes "\n")

-- the two lines with the time of a route's requests, in nanoseconds, and with their number
unfoldable pub spent_text : RouteTime → List ℕ
spent_text t =
    ((label_text (codes "sumacgate_answer_seconds_sum{route=\"") t.route.now (codes "\"} ")
    ++ value_text t.nanoseconds (codes "e-9\n"))
    ++ label_text (codes "sumacgate_answer_seconds_count{route=\"") t.route.now (codes "\"} "))
    ++ value_text t.done (codes "\n")

abbrev pub buckets_text : List Bucket → List ℕ
buckets_text buckets = flat_map bucket_text buckets

abbrev pub times_text : List RouteTime → List ℕ
times_text times = flat_map spent_text times

abbrev pub times_head : HeadView
times_head = record {
  name = codes "sumacgate_answer_seconds";
  help = codes "Time from a request's route to its answer, by route.";
  kind = Histogram;
}

-- the family of times
unfoldable pub family_text : List Bucket → List RouteTime → List ℕ
family_text buckets times = (head_text times_head ++ buckets_text buckets) ++ times_text times

abbrev pub requests_head : HeadView
requests_head = record {
  name = codes "sumacgate_requests_total";
  help = codes "Requests that have a route, by route.";
  kind = Counter;
}

-- all that is shown of routes
abbrev pub routes_text : Counts → List ℕ
routes_text c = table_text requests_head c.requests.items ++ family_text c.buckets.items c.times.items
