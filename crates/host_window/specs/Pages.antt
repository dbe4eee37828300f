-- The pages of the window.
use Rattle.std.specs.Prelude.{◌≡◌, ◌⊎◌, ℕ, Bool, true, List, ◌++◌, codes, decimal, length}
use Rattle.http_wire.specs.Answers.{close_of}
use Rattle.http_wire.specs.Requests.{RequestText}
use Rattle.http_wire.specs.declared.request.WireFault.{WireFault}
use Rattle.host_window.specs.Finds.{window_text}
use Rattle.host_window.specs.declared.counts.Counts.{Counts}
use Rattle.host_window.specs.declared.found.Finds.{Finds}
use Rattle.host_window.specs.declared.counters.Health.{Health}
use Rattle.host_window.specs.declared.counters.Health.TheVariants as health
use Rattle.host_window.specs.declared.pages.Page.{Page}
use Rattle.host_window.specs.declared.pages.Page.TheVariants as page
use Rattle.host_window.specs.declared.words.Word.{Word}
use Rattle.host_window.specs.declared.words.Word.TheVariants.{Well, Starting, Draining, Deaf, Lost, NotGet, Unknown}
use Rattle.host_window.specs.declared.words.Word.TheVariants.{Refused, NoMemory}

abbrev pub word_of : Health → Word
word_of health.Starting = Starting
word_of health.Well = Well
word_of health.Draining = Draining
word_of health.Deaf = Deaf
word_of health.Lost = Lost

-- the status of a word with its reason, and the one further line that such an answer has
abbrev pub line_of : Word → List ℕ
line_of Well = codes "200 OK"
line_of Starting = codes "503 Service Unavailable"
line_of Draining = codes "503 Service Unavailable"
line_of Deaf = codes "503 Service Unavailable"
line_of Lost = codes "503 Service Unavailable"
line_of NotGet = codes "405 Method Not Allowed\r\nAllow: GET"
line_of Unknown = codes "404 Not Found"
line_of Refused = codes "400 Bad Request"
line_of NoMemory = codes "500 Internal Server Error"

abbrev pub text_of : Word → List ℕ
text_of Well = codes "ok\n"
text_of Starting = codes "the host doesn't listen yet\n"
text_of Draining = codes "the last connection is taken\n"
text_of Deaf = codes "the listener is lost\n"
text_of Lost = codes "the journal is lost\n"
text_of NotGet = codes "GET alone is served\n"
text_of Unknown = codes "there is no such page\n"
text_of Refused = codes "this is no request\n"
text_of NoMemory = codes "there is no memory\n"

-- the head of an answer up to the value of its length
abbrev pub front_of : List ℕ → List ℕ
front_of line =
    codes "HTTP/1.1 " ++ line ++ codes "\r\nContent-Type: text/plain; version=0.0.4; charset=utf-8"
    ++ codes "\r\nContent-Length: "

-- an answer with this status line and this body
abbrev pub reply_text : List ℕ → List ℕ → Bool → List ℕ
reply_text line body last =
    (front_of line ++ decimal (length body) ++ close_of last ++ codes "\r\n\r\n") ++ body

abbrev pub page_text : List ℕ → Bool → List ℕ
page_text body last = reply_text (codes "200 OK") body last

-- what a request asks for
abbrev pub IsAsked : List ℕ → List ℕ → Page → Type 0
IsAsked method path page.Healthz = (path ≡ codes "/healthz") × (method ≡ codes "GET")
IsAsked method path page.Metrics = (path ≡ codes "/metrics") × (method ≡ codes "GET")
IsAsked method path page.NotGet =
    ((path ≡ codes "/healthz") ⊎ (path ≡ codes "/metrics")) × (method ≡ codes "GET" → ⊥)
IsAsked method path page.Unknown = (path ≡ codes "/healthz" → ⊥) × (path ≡ codes "/metrics" → ⊥)

-- what is answered: how some host does, or what is counted of it and found in its books, or that there was no memory
-- for that
abbrev pub Shows : Page → Bool → List ℕ → Type 0
Shows page.Healthz last text = (how : Health) × (text ≡ reply_text (line_of (word_of how)) (text_of (word_of how)) last)
Shows page.Metrics last text =
    ((counts : Counts) × (finds : Finds) × (text ≡ page_text (window_text counts finds) last))
    ⊎ (text ≡ reply_text (line_of NoMemory) (text_of NoMemory) last)
Shows page.NotGet last text = text ≡ reply_text (line_of NotGet) (text_of NotGet) last
Shows page.Unknown last text = text ≡ reply_text (line_of Unknown) (text_of Unknown) last

-- a request is answered so, by its method and its path alone
abbrev pub Answers : RequestText → List ℕ → Type 0
Answers request text = (asked : Page) × IsAsked request.method request.path asked × Shows asked request.last text

-- what stands in a request's place is answered so, whatever it is
abbrev pub Declines : WireFault → List ℕ → Type 0
Declines fault text = text ≡ reply_text (line_of Refused) (text_of Refused) true
