-- What the page answers (RFC 9110).
use Rattle.std.specs.Prelude.{ℕ, ◌||◌, List, [], ◌∷◌, codes, bytes_eq, if◌then◌else◌}
use Rattle.http_server.specs.declared.response.Response.{Response}
use Rattle.http_server.specs.Response.{IsResponse}
use Rattle.http1.specs.Fields.{Header}
use Rattle.hx_metrics.specs.declared.figures.Figures.{Figures}
use Rattle.hx_metrics.specs.declared.watched.Health.{Health}
use Rattle.hx_metrics.specs.declared.watched.Health.TheVariants.{Ready, Waiting, Stopped}
use Rattle.hx_metrics.specs.declared.asked.Asked.{Asked}
use Rattle.hx_metrics.specs.declared.asked.Asked.TheVariants as asked
use Rattle.hx_metrics.specs.Metrics.{metrics_text}

-- a resource is only read: GET and HEAD (sections 9.3.1 and 9.3.2)
abbrev pub read_by : (method : List ℕ) → Asked → Asked
read_by method resource =
    if bytes_eq method (codes "GET") || bytes_eq method (codes "HEAD")
    then resource else asked.OtherMethod

-- what a request asks by its method and the path of its target
abbrev pub asked_by : (method path : List ℕ) → Asked
asked_by method path =
    if bytes_eq path (codes "/metrics") then read_by method asked.Metrics
    else (if bytes_eq path (codes "/health") then read_by method asked.Health
    else asked.OtherPath)

-- the type of a body
abbrev pub typed : (media : List ℕ) → List Header
typed media = (codes "content-type", media) ∷ []

abbrev pub metrics_type : List ℕ
metrics_type = codes "text/plain; version=0.0.4; charset=utf-8"

abbrev pub health_type : List ℕ
health_type = codes "text/plain; charset=utf-8"

-- 200 (OK), or 503 (Service Unavailable)
abbrev pub status_of : Health → ℕ
status_of Ready = 200
status_of Waiting = 503
status_of Stopped = 503

abbrev pub health_text : Health → List ℕ
health_text Ready = codes "ok\n"
health_text Waiting = codes "the journal waits for room\n"
health_text Stopped = codes "the journal has failed\n"

-- the figures are ones that may be shown
abbrev pub GivesMetrics : (Figures → Type 0) → Response → Type 0
GivesMetrics shows response =
    (f : Figures) × shows f × IsResponse 200 (typed metrics_type) (metrics_text f) response

abbrev pub GivesHealth : (Health → Type 0) → Response → Type 0
GivesHealth is_in response =
    (h : Health) × is_in h
    × IsResponse (status_of h) (typed health_type) (health_text h) response

-- The answer to what is asked of a venue that shows such figures and is in such a health. 404 (Not
-- Found, section 15.5.5) and 405 (Method Not Allowed, section 15.5.6) have no body.
abbrev pub Answers :
    (Figures → Type 0) → (Health → Type 0) → Asked → Response → Type 0
Answers shows is_in asked.Metrics response = GivesMetrics shows response
Answers shows is_in asked.Health response = GivesHealth is_in response
Answers shows is_in asked.OtherPath response = IsResponse 404 [] [] response
Answers shows is_in asked.OtherMethod response =
    IsResponse 405 ((codes "allow", codes "GET, HEAD") ∷ []) [] response
