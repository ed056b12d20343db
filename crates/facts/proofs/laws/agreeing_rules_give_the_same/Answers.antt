use Rattle.facts.proofs.Agreement.{has_there, has_back, fault_there, fault_back, part_there, part_back}
use Rattle.facts.proofs.laws.agreeing_rules_give_the_same.Goals as goal

pub returns-clause-facts : goal.returns-clause-facts
returns-clause-facts g c n i f = has_there g.A.HasAgreement.agreement.one g.A.HasAgreement.agreement.two g.A.HasAgreement.agreement.Inside g.A.HasAgreement.agreement.agree n f i

pub returns-clause-facts_back : goal.returns-clause-facts_back
returns-clause-facts_back g c n i f = has_back g.A.HasAgreement.agreement.one g.A.HasAgreement.agreement.two g.A.HasAgreement.agreement.Inside g.A.HasAgreement.agreement.agree n f i

pub returns-clause-faults : goal.returns-clause-faults
returns-clause-faults g c n i x = fault_there g.A.HasAgreement.agreement.one g.A.HasAgreement.agreement.two g.A.HasAgreement.agreement.Inside g.A.HasAgreement.agreement.agree n x i

pub returns-clause-faults_back : goal.returns-clause-faults_back
returns-clause-faults_back g c n i x = fault_back g.A.HasAgreement.agreement.one g.A.HasAgreement.agreement.two g.A.HasAgreement.agreement.Inside g.A.HasAgreement.agreement.agree n x i

pub returns-clause-parts : goal.returns-clause-parts
returns-clause-parts g c = part_there g.A.HasAgreement.agreement.one g.A.HasAgreement.agreement.two g.A.HasAgreement.agreement.Inside g.A.HasAgreement.agreement.agree

pub returns-clause-parts_back : goal.returns-clause-parts_back
returns-clause-parts_back g c = part_back g.A.HasAgreement.agreement.one g.A.HasAgreement.agreement.two g.A.HasAgreement.agreement.Inside g.A.HasAgreement.agreement.agree
