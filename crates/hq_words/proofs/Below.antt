-- What a command is with an argument more, or with another below it.
use Rattle.std.proofs.Common.{◌≡◌, Result, Ok, Err, IfOk, IsOkAnd, subst, sym, ap, ap₂, ◌∙◌}
use Rattle.clap.specs.Words.{App, Rule, with_rule, with_subcommand}

pub with_below : {C E : Type 0} (app_in : C → App) (local : C → Type 0) (made command below : Result C E) (outer inner : App) → IfOk made (λ c. IsOkAnd command (λ w. IsOkAnd below (λ b. local b → app_in c ≡ with_subcommand (app_in w) (app_in b).top))) → IfOk command (λ w. app_in w ≡ outer) → IfOk below (λ b. app_in b ≡ inner) → IfOk below local → IfOk made (λ c. app_in c ≡ with_subcommand outer inner.top)
with_below app_in local (Err e) command below outer inner adds is_outer is_inner is_local = tt
with_below app_in local (Ok c) (Err e) below outer inner adds is_outer is_inner is_local = absurd adds
with_below app_in local (Ok c) (Ok w) (Err e) outer inner adds is_outer is_inner is_local = absurd adds
with_below app_in local (Ok c) (Ok w) (Ok b) outer inner adds is_outer is_inner is_local = adds is_local ∙ ap₂ with_subcommand is_outer (ap (λ (a : App). a.top) is_inner)

pub both_there : {C E : Type 0} (holds : C → C → Type 0) (command below : Result C E) (w b : C) → command ≡ Ok w → below ≡ Ok b → holds w b → IsOkAnd command (λ x. IsOkAnd below (λ y. holds x y))
both_there {C} {E} holds command below w b is_w is_b held = subst (λ (r : Result C E). IsOkAnd r (λ x. IsOkAnd below (λ y. holds x y))) (sym is_w) (subst (λ (r : Result C E). IsOkAnd r (λ y. holds w y)) (sym is_b) held)

pub is_there : {C E : Type 0} (holds : C → Type 0) (command : Result C E) (w : C) → command ≡ Ok w → holds w → IsOkAnd command holds
is_there {C} {E} holds command w is_w held = subst (λ (r : Result C E). IsOkAnd r holds) (sym is_w) held

pub with_argument : {C E : Type 0} (app_in : C → App) (made command : Result C E) (local : Type 0) (outer : App) (rule wanted : Rule) → IfOk made (λ c. IsOkAnd command (λ w. local → app_in c ≡ with_rule (app_in w) rule)) → local → IfOk command (λ w. app_in w ≡ outer) → rule ≡ wanted → IfOk made (λ c. app_in c ≡ with_rule outer wanted)
with_argument app_in (Err e) command local outer rule wanted adds is_local is_outer is_rule = tt
with_argument app_in (Ok c) (Err e) local outer rule wanted adds is_local is_outer is_rule = absurd adds
with_argument app_in (Ok c) (Ok w) local outer rule wanted adds is_local is_outer is_rule = adds is_local ∙ ap₂ with_rule is_outer is_rule

pub stays : {C E : Type 0} (holds : C → Type 0) (made command : Result C E) (local : Type 0) → IfOk made (λ c. IsOkAnd command (λ w. local → holds w → holds c)) → local → IfOk command holds → IfOk made holds
stays holds (Err e) command local keeps is_local held = tt
stays holds (Ok c) (Err e) local keeps is_local held = absurd keeps
stays holds (Ok c) (Ok w) local keeps is_local held = keeps is_local held
