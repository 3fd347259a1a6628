-- From what best route gives back to what is written. Assumes nothing.
use Rattle.std.specs.Prelude.{Err, Ok, Result}
use mathlib.Core.Path.{◌≡◌, ap, ◌∙◌, subst}
use mathlib.Core.List.{List}
use Prim.Native.Nat.{ℕ, ◌≤◌}
use native.Mathlib.Omega.{arith}
use lib.ListN.{length, take, drop, length-append, length-drop}
use Rattle.promises.specs.declared.Route.{Route}
use Rattle.refusals.proofs.Early.{number_pos}
use Rattle.refusals.specs.Refusals.{number_of}
use Rattle.refusals.specs.declared.Refusal.{Refusal}
use Rattle.promises.specs.Given.{plan_numbers}
use Rattle.promises.specs.Promises.{Plans, refused, none, route}
use Rattle.promises.specs.declared.PlanNumbers.{PlanNumbers}
use Rattle.promises.specs.declared.PlanQuestion.{PlanQuestion}
use Rattle.text.proofs.Outcome.{writes_success, writes_refused}
use Rattle.text.specs.Answer.{most_route, answer_text, route_text, refused_text}
use Rattle.plan.specs.Response.{question, Writes}

-- a route is no longer than the list
fits : {ns rs list xs : List ℕ} {q : PlanQuestion} {a : PlanNumbers} → Plans ns rs q list a xs → a.number ≡ 0
    → length xs ≡ length list → a.roads ≤ length xs
fits (refused r f) z l = let p = number_pos r in absurd (omega arith)
fits (none r f w why) z l = let p = number_pos r in absurd (omega arith)
fits {list} (route ks v f w o m) z l =
    let a = length-append ks (drop (length ks) list) in
    let b = length-drop (length ks) list in
    omega arith

module _ {ns rs list xs : List ℕ} {q : PlanQuestion} (answer : Result Route Refusal) (p : Plans ns rs q list (plan_numbers answer) xs) where
  pub route_fits : {route : Route} → answer ≡ Ok route → length xs ≡ length list → route.roads ≤ length xs
  route_fits e l =
      let roads = ap (λ (a : Result Route Refusal). (plan_numbers a).roads) e in
      omega (arith, fits p (ap (λ (a : Result Route Refusal). (plan_numbers a).number) e) l)

  -- the text, by the numbers that the answer gives for the numbers ms of the line
  module _ {ms : List ℕ} {given : PlanNumbers} (asks : q ≡ question ms) (long : length list ≡ most_route) (g : given ≡ plan_numbers answer) where
    writes : Writes ms ns rs (answer_text given xs)
    writes = let p' = rw asks at p in Writes.outcome list xs given long (rw g p')

    pub writes_route : {route : Route} → answer ≡ Ok route → Writes ms ns rs (route_text given (take route.roads xs))
    writes_route {route = r} e =
        let number = ap (λ (a : PlanNumbers). a.number) (g ∙ ap plan_numbers e) in
        let roads : given.roads ≡ r.roads = ap (λ (a : PlanNumbers). a.roads) (g ∙ ap plan_numbers e) in
        subst (λ (k : ℕ). Writes ms ns rs (route_text given (take k xs))) roads
        (writes_success (Writes ms ns rs) given.number given.place _ writes number)

    pub writes_refusal : {r : Refusal} → answer ≡ Err r → Writes ms ns rs (refused_text given.number given.place)
    writes_refusal {r} e =
        let number : given.number ≡ number_of r = ap (λ (a : PlanNumbers). a.number) (g ∙ ap plan_numbers e) in
        writes_refused (Writes ms ns rs) given.number given.place _ writes (omega (arith, number_pos r))
