-- One more request.
use Rattle.std.proofs.Common.{◌≡◌, ℕ, ◌+◌, List, [], ◌∷◌, ◌++◌, ap, sym, ◌∙◌, append-nil, add-one}
use Rattle.std.specs.List.{concat}
use Rattle.std.proofs.lemmas.List.Folds.{concat-append}
use Rattle.workload_maker.specs.Requests.{first_requests, request_text, state_after, state_at}

module _ (seed count : ℕ) where
  pub state-more : (state : ℕ) → state ≡ state_at seed count → state_after (count + 1) state ≡ state_at seed (count + 1)
  state-more state is = ap (state_after (count + 1)) is ∙ ap (λ n. state_after n (state_at seed count)) (add-one count) ∙ ap (state_at seed) (sym (add-one count))

  pub text-more : (state : ℕ) (input text : List ℕ) → state ≡ state_at seed count → input ≡ concat (first_requests seed count)
      → text ≡ request_text (count + 1) state → input ++ text ≡ concat (first_requests seed (count + 1))
  text-more state input text is bytes made =
      let before = first_requests seed count in
      let at = state_at seed count in
      let next = request_text (count + 1) at in
      ap (λ l. l ++ text) bytes
      ∙ ap (λ l. concat before ++ l) (made ∙ ap (request_text (count + 1)) is ∙ sym (append-nil next))
      ∙ sym (concat-append before (next ∷ []))
      ∙ ap (λ n. concat (before ++ request_text n at ∷ [])) (add-one count)
      ∙ ap (λ n. concat (first_requests seed n)) (sym (add-one count))
