-- What is decided after some of the obligations.
use Rattle.std.proofs.Common.{◌≡◌, ℕ, zero, suc, ◌<◌, ◌≤◌, ◌+◌, List, [], ◌∷◌, ◌++◌, map, take, length, get_or, Some, arith, refl, ap, sym, subst, ◌∙◌}
use Rattle.std.specs.Prelude.{slice_get}
use Rattle.std.specs.List.{AllByRecursion, AllZip}
use Rattle.std.proofs.lemmas.List.{map-append, take-map, take_all, take_more}
use Rattle.rh_list.proofs.Appended.{pushed}
use Rattle.rh_log.specs.declared.log.Log.{Log}
use Rattle.rh_term.specs.declared.obligation.Obligation.{Obligation}
use Rattle.rh_oblig.specs.Obligation.{parts_of}
use Rattle.rh_refuter.specs.declared.search.Verdict.TheVariants.{Closed}
use Rattle.rh_admit.specs.Admission.{Finds, IsShut, Part}

abbrev pub part_of : Obligation → Part
part_of obligation = (obligation.terms, obligation.clauses)

-- the logs are those of the obligations before a place, none of which has an open partition
pub record AreClosed (obligations : List Obligation) (place : ℕ) (logs : List Log) : Type 0 where
  pub kept : AllZip (λ part log. Finds part (Closed log)) (take place (parts_of obligations)) logs
  pub shut : AllByRecursion IsShut (take place (parts_of obligations))

zip_more : (R : Part → Log → Type 0) (parts : List Part) (logs : List Log) (part : Part) (log : Log) → AllZip R parts logs → R part log → AllZip R (parts ++ part ∷ []) (logs ++ log ∷ [])
zip_more R [] [] part log all this = (this, tt)
zip_more R [] (first ∷ logs) part log all this = absurd all
zip_more R (first ∷ parts) [] part log all this = absurd all
zip_more R (first ∷ parts) (one ∷ logs) part log all this = (all.0, zip_more R parts logs part log all.1 this)

-- one more obligation
parts_more : (obligations : List Obligation) (i : ℕ) (d : Obligation) → i < length obligations
    → take (i + 1) (parts_of obligations) ≡ take i (parts_of obligations) ++ part_of (get_or obligations i d) ∷ []
parts_more obligations i d within =
    take-map part_of (i + 1) obligations
    ∙ ap (λ (front : List Obligation). map part_of front) (take_more obligations i d within)
    ∙ map-append part_of (take i obligations) (get_or obligations i d ∷ [])
    ∙ ap (λ (front : List Part). front ++ part_of (get_or obligations i d) ∷ []) (sym (take-map part_of i obligations))

pub closed_more : (obligations : List Obligation) (i : ℕ) (d : Obligation) (logs : List Log) (log : Log) → i < length obligations → d ≡ get_or obligations i d
    → AreClosed obligations i logs → Finds (part_of d) (Closed log) → IsShut (part_of d) → AreClosed obligations (i + 1) (logs ++ log ∷ [])
closed_more obligations i d logs log within here closed finds shut =
    let part : part_of d ≡ part_of (get_or obligations i d) = ap part_of here in
    record {
      kept = subst (λ (parts : List Part). AllZip (λ part log. Finds part (Closed log)) parts (logs ++ log ∷ [])) (sym (parts_more obligations i d within))
          (zip_more (λ part log. Finds part (Closed log)) (take i (parts_of obligations)) logs (part_of (get_or obligations i d)) log closed.kept
          (subst (λ (part : Part). Finds part (Closed log)) part finds));
      shut = subst (AllByRecursion IsShut) (sym (parts_more obligations i d within))
          (pushed IsShut (take i (parts_of obligations)) (part_of (get_or obligations i d)) closed.shut (subst IsShut part shut));
    }

-- the obligation at a place
pub part_at : (obligations : List Obligation) (i : ℕ) (d : Obligation) → i < length obligations → d ≡ get_or obligations i d
    → slice_get (parts_of obligations) i ≡ Some (part_of d)
part_at obligations i d within here = read obligations i within ∙ ap (λ (at : Obligation). Some (part_of at)) (sym here)
  where
    read : (others : List Obligation) (n : ℕ) → n < length others → slice_get (parts_of others) n ≡ Some (part_of (get_or others n d))
    read [] n within = absurd (omega (arith, within))
    read (first ∷ others) zero within = refl
    read (first ∷ others) (suc n) within = read others n (omega (arith, within))

-- at the end
pub all_kept : (obligations : List Obligation) (i : ℕ) (logs : List Log) → length obligations ≤ i → AreClosed obligations i logs
    → AllZip (λ part log. Finds part (Closed log)) (parts_of obligations) logs × AllByRecursion IsShut (parts_of obligations)
all_kept obligations i logs past closed =
    let all : take i (parts_of obligations) ≡ parts_of obligations = take-map part_of i obligations ∙ ap parts_of (take_all i obligations past) in
    (subst (λ (parts : List Part). AllZip (λ part log. Finds part (Closed log)) parts logs) all closed.kept, subst (AllByRecursion IsShut) all closed.shut)
