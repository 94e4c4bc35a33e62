use Rattle.std.proofs.Common.{◌≡◌, ℕ, ◌==◌, ◌∙◌, ap, rules, tests}
use Rattle.std.specs.Option.{option_map}
use Rattle.std.proofs.lemmas.Iterator.{YieldsList-from_slice}
use Rattle.std.proofs.lemmas.Iterator.Search.{find_from_yields_List}
use Rattle.std.proofs.lemmas.Iterator.Consumers.{YieldsList-at, YieldsList-from_enumerate, YieldsList-from_filter}
use Rattle.records.specs.declared.lists.Declaration.{Declaration}
use Rattle.records.specs.Found.{numbered}
use Rattle.records.proofs.Finds.{is_procedure, numbered_at, option_map_twice, procedure_found}
use Rattle.records.proofs.lists.HeldBook.find_procedure.Goals as goal

pub returns : goal.returns
returns c =
    let ds = c.args.self.now.declarations.now in
    let es = c.args.self.now.entries.now in
    let e =
    find_from_yields_List (λ (p : ℕ × Declaration). p.1.name == c.args.name) _ _ c.find.result c.find.ensures.ran
    (YieldsList-from_enumerate (YieldsList-at c.enumerate.ensures.source (YieldsList-from_filter _ is_procedure (YieldsList-at c.filter.ensures.source (YieldsList-from_slice ds cc)) c.filter.ensures.closure (λ x b q k. search (rules, tests)))) (cc))
    (λ x b q k. search (rules, tests)) in
    let m : option_map numbered c.map.result ≡ option_map (λ p. numbered_at es (p.0, p.1.now)) c.find.result = search rules in
    m ∙ option_map_twice (numbered_at es) (λ p. (p.0, p.1.now)) c.find.result ∙ ap (option_map (numbered_at es)) e ∙ procedure_found c.args.name es 0 ds
