mod NoRecords
